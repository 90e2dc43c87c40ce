use Rattle.std.proofs.Common.{ap, ◌∙◌, arith, false, Some}
use Rattle.rent_table.specs.Ops.{knows}
use Rattle.rent_table.proofs.Asked.{asked_started, none_of_unknown}
use Rattle.rent_table.proofs.Matching.{matched_quiet, len_started}
use Rattle.rent_table.proofs.operations.Operations.start_quiet.Goals as goal

pub invariant_of-self : goal.invariant_of-self
invariant_of-self c =
    let i = c.self.invariant in
    let unknown = ap (λ k. knows k.ops c.args.number) c.self.view_is ∙ c.requires.unknown in
    record {
      matched = matched_quiet c.self.inside.lifecycles.ops c.start.new.self.ops c.self.inside.waiters.next c.insert.new.self.next c.args.number false i.matched c.args.next c.start.ensures.ops c.insert.ensures.next;
      idle = i.idle;
      asked = asked_started c.self.inside.lifecycles.ops c.start.new.self.ops c.self.inside.steps.steps c.args.number false (Some c.args.next) unknown c.start.ensures.ops i.asked;
      fits =
          let more = len_started c.self.inside.lifecycles.ops c.start.new.self.ops c.args.number false (Some c.args.next) unknown c.start.ensures.ops in
          let spare = ap (λ k. k.spare) c.self.view_is in
          let room = c.requires.room in
          omega (arith, more, spare, room);
    }

pub returns-clause-spare : goal.returns-clause-spare
returns-clause-spare c =
    let unknown = ap (λ k. knows k.ops c.args.number) c.self.view_is ∙ c.requires.unknown in
    let more = len_started c.self.inside.lifecycles.ops c.start.new.self.ops c.args.number false (Some c.args.next) unknown c.start.ensures.ops in
    let spare = ap (λ k. k.spare) c.self.view_is in
    let lifecycles = c.start.ensures.spare in
    let waiters = c.insert.ensures.spare in
    omega (arith, more, spare, lifecycles, waiters)

pub returns-clause-no_steps : goal.returns-clause-no_steps
returns-clause-no_steps c = none_of_unknown c.self.inside.lifecycles.ops c.self.inside.steps.steps c.args.number c.self.invariant.asked (ap (λ k. knows k.ops c.args.number) c.self.view_is ∙ c.requires.unknown)
