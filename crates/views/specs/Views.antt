-- What a read shows, in words (docs/FORMATS.md).
-- Assumes nothing.
use Rattle.std.specs.Prelude.{ℕ, ◌++◌, List, codes, if◌then◌else◌, ◌==◌, leb}
use Rattle.std.specs.Fmt.{decimal}
use Rattle.plans.specs.declared.Request as R
use Rattle.plans.specs.declared.Request.{Request}
use Rattle.verdicts.specs.declared.Verdict.{Verdict}
use Rattle.verdicts.specs.declared.Verdict.TheVariants.{NoImage, Old, Both, New, Gone, Another}
use Rattle.verdicts.specs.declared.Tally.{Tally}
use Rattle.views.specs.declared.Event.{Event}
use Rattle.views.specs.declared.Event.TheVariants.{Save, Format, Cut}

-- what a request is
abbrev pub event_of : Request → Event
event_of R.TheVariants.Save = Save
event_of R.TheVariants.Format = Format

-- what was under way
abbrev pub event_name : Event → List ℕ
event_name Save = codes "save"
event_name Format = codes "format"
event_name Cut = codes "cut"

-- what a read does
abbrev pub shown_text : Verdict → Event → List ℕ
shown_text NoImage event = codes "is answered 5, as before the " ++ event_name event
shown_text Old event = codes "shows the old image, whole"
shown_text Both event = codes "shows the old image, whole, which is the new one too"
shown_text New event = codes "shows the new image, whole"
shown_text Gone event = codes "is answered 5, as the format has it"
shown_text Another event = codes "shows ANOTHER IMAGE"

-- how often a read showed what
abbrev pub tally_text : Tally → List ℕ
tally_text t =
    codes "old image: "
    ++ (decimal t.old
    ++ (codes ", new image: " ++ (decimal t.new ++ (codes ", another: " ++ decimal t.another))))

-- the last line of a run that cuts a walk so many times
abbrev pub cut_tally_text : ℕ → Tally → List ℕ
cut_tally_text cuts t =
    (if leb 1 t.another then codes "failed" else codes "ok")
    ++ (codes ": "
    ++ (decimal cuts
    ++ (codes " " ++ ((if cuts == 1 then codes "cut" else codes "cuts") ++ (codes ", " ++ tally_text t)))))
