-- Lists of rings that nothing moved.
use Rattle.std.proofs.Common.{◌≡◌, [], Option, Some, None, ◌∙◌, append-nil, sym}
use Rattle.uring_base.specs.declared.events.Completion.{Completion}
use Rattle.ring_traits.specs.Lists.{Lists, Moves, WhereTold}

unmoved_lists : (kept : Completion → Completion) (l m : Lists) → Moves kept l [] [] m → m ≡ l
unmoved_lists kept l m h =
    let published = sym h.taken in
    let completions = h.posted ∙ append-nil l.completions in
    λ i. record {
      capacity = h.capacity i;
      published = published i;
      pushed = h.pushed i;
      completion_capacity = h.completion_capacity i;
      completions = completions i;
      held = h.held i;
    }

pub unmoved : (kept : Completion → Completion) (a b : Option Lists) → WhereTold (λ l m. Moves kept l [] [] m) a b → b ≡ a
unmoved kept None b h = h
unmoved kept (Some l) None h = absurd (h tt)
unmoved kept (Some l) (Some m) h = λ i. Some (unmoved_lists kept l m h i)
