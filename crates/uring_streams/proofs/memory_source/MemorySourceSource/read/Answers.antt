use Rattle.std.proofs.Common.{◌≡◌, ◌-◌, length, take, drop, min, ap, ◌∙◌, sym, arith}
use Rattle.std.proofs.lemmas.Grind.{common_steps}
use Rattle.uring_streams.specs.States.{SourceState}
use Rattle.uring_streams.proofs.Rest.{placed_then_left, none_placed}
use Rattle.uring_streams.proofs.memory_source.MemorySourceSource.read.Goals as goal

pub returns-clause-bytes : goal.returns-clause-bytes
returns-clause-bytes c =
    let bytes = c.self.inside.bytes in
    let at = c.self.inside.at in
    let n = c.min-count.result in
    let given = c.copy_from_slice.new.self in
    let is : given ≡ take n (drop at bytes) = grind (arith, common_steps) in
    let size : length given ≡ n = grind (arith, common_steps) in
    let most : n ≡ min (length c.args.into.now) (length bytes - at) = grind (arith, common_steps) in (
      sym (ap (λ (s : SourceState). s.left) c.self.view_is) ∙ placed_then_left bytes given _ at n size is,
      λ zero some. none_placed bytes given c.args.into.now at n size most zero some,
    )
