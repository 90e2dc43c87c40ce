use Rattle.uring_model.specs.Partner.{file_machine}
use Rattle.std.proofs.Common.{refl}
use Rattle.job_generator.proofs.Grouping.{groups_in_order}
use Rattle.job_generator.proofs.Settled.{turn_settles_all}
use Rattle.job_generator.proofs.laws.runs_go_in_groups.Goals as goal

pub returns : goal.returns
returns c = record { order = groups_in_order; all = λ room ts a rests none fits. let s = turn_settles_all file_machine (λ files t. refl) room ts a rests none fits in (s.ends, s.pending, s.choices) }
