-- The text of a report.
use Rattle.std.specs.Prelude.{ℕ, ◌+◌, true, false, List, [], ◌∷◌, ◌++◌, Option, Some, None, codes, decimal, flat_map, if◌then◌else◌}
use Rattle.std.specs.Fmt.{signed_decimal}
use Rattle.hex.specs.Hex.{encode_lower}
use Rattle.uring_base.specs.declared.events.Event.{Event}
use Rattle.uring_base.specs.declared.events.Event.TheVariants.{Turn, Take, Post, Quiet}
use Rattle.uring_model.specs.declared.jobs.Outcome.{Outcome}

-- two lower case digits for each byte, or a dash where there is none
abbrev pub hex_text : List ℕ → List ℕ
hex_text [] = codes "-"
hex_text (b ∷ bytes) = encode_lower (b ∷ bytes)

abbrev pub buffer_text : Option (List ℕ) → List ℕ
buffer_text None = codes "-"
buffer_text (Some bytes) = hex_text bytes

-- a quiet outcome's result isn't written
abbrev pub result_text : Outcome → List ℕ
result_text outcome = if outcome.quiet then codes "quiet" else signed_decimal outcome.result

abbrev pub outcome_line : ℕ → Outcome → List ℕ
outcome_line job outcome = codes "out " ++ decimal job ++ codes " " ++ result_text outcome ++ codes " " ++ buffer_text outcome.buf ++ codes "\n"

-- `post` is the last of its job
abbrev pub event_line : Event → List ℕ
event_line (Turn entries) = codes "turn " ++ decimal entries ++ codes "\n"
event_line (Take job) = codes "take " ++ decimal job ++ codes "\n"
event_line (Post job result true) = codes "post " ++ decimal job ++ codes " " ++ signed_decimal result ++ codes "\n"
event_line (Post job result false) = codes "more " ++ decimal job ++ codes " " ++ signed_decimal result ++ codes "\n"
event_line (Quiet job) = codes "quiet " ++ decimal job ++ codes "\n"

-- the lines of the outcomes, the first of which is that of this job
abbrev pub outcome_lines : ℕ → List Outcome → List ℕ
outcome_lines job [] = []
outcome_lines job (outcome ∷ outcomes) = outcome_line job outcome ++ outcome_lines (job + 1) outcomes

abbrev pub text_of : List Outcome → List Event → List ℕ
text_of outcomes journal = outcome_lines 0 outcomes ++ flat_map event_line journal ++ codes "end\n"
