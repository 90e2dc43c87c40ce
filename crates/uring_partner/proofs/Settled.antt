-- The code's settling is the one that the next choice names.
use Rattle.std.specs.Prelude.{◌≡◌, ℕ, Bool, true, false, ◌&&◌, if◌then◌else◌, List, [], ◌∷◌, ◌++◌, length, drop, ℤ, Option, Some, None, is_none, refl}
use Rattle.std.specs.List.{remove}
use Rattle.std.proofs.Common.{ap, ◌∙◌}
use Rattle.uring_base.specs.declared.buffer.Loan.{Loan}
use Rattle.uring_base.specs.FlagBits.{has_flags}
use Rattle.uring_base.specs.declared.flags.TheConstants.Flags.{SKIP_SUCCESS}
use Rattle.uring_base.specs.Loans.{with_part}
use Rattle.file_tree.specs.Asks.{path_op_of}
use Rattle.file_tree.specs.Worlds.{renewed, is_stat}
use Rattle.file_tree.specs.declared.world.World.{World}
use Rattle.uring_model.specs.declared.pending.Pending.{Pending}
use Rattle.uring_model.specs.Jobs.{linked, is_success}
use Rattle.uring_model.specs.Replay.{cuts}
use Rattle.uring_model.specs.Chosen.{choice}
use Rattle.uring_partner.specs.Served.{PartnerState, world_machine, Cursor, job_of, named, cursors, answer_to, mark_first_if, pass, pass_end}
use Rattle.uring_partner.specs.Served.{ByPost, Quietly}
use Rattle.uring_partner.specs.Settling.{answered_among, settled_item, ends_as, SettlesAs}
use Rattle.uring_partner.proofs.Marks.{Removes, answer_here}

-- an answer leaves an entry quiet that was

none_kept : (new : Bool) (loan : Option Loan) (bytes : List ℕ) → is_none (if new then renewed loan bytes else with_part loan bytes) ≡ is_none loan
none_kept true None bytes = refl
none_kept true (Some loan) bytes = refl
none_kept false None bytes = refl
none_kept false (Some loan) bytes = refl

quiet_kept : (i : Pending) (r : ℤ) (bytes : List ℕ) → (job_of (settled_item i r bytes).taken).quiet ≡ (job_of i.taken).quiet
quiet_kept i r bytes = ap (λ b. has_flags i.taken.entry.flags SKIP_SUCCESS && b) (none_kept (is_stat (path_op_of i.taken) && is_success r) i.taken.loan bytes)

pub code_settles : (a : PartnerState) (c : Cursor) (k : ℕ) (x : Pending) (rest : List Pending) (after : Pending) (r : ℤ) (o : Option ℕ) (b l : Bool) (f : World) (told pend : List Pending) (end : Option Bool) (cs : List ℕ)
    → named (choice a.choices) (cursors a) ≡ Some c → length c.front ≡ k → Removes a.pending c k → x ≡ c.item → rest ≡ remove a.pending k
    → r ≡ (answered_among a.world rest x).result → o ≡ (answered_among a.world rest x).marks → b ≡ cuts x.cut (job_of x.taken) (answered_among a.world rest x).result → f ≡ (answered_among a.world rest x).world
    → after ≡ settled_item x (answered_among a.world rest x).result (answered_among a.world rest x).buf
    → l ≡ linked (job_of after.taken).link
    → ((front back : List Pending) → rest ≡ front ++ back → length front ≡ k → told ≡ front ++ pass l b back)
    → ((front back : List Pending) → rest ≡ front ++ back → length front ≡ k → end ≡ pass_end l b back a.tail)
    → pend ≡ mark_first_if o told → cs ≡ drop 1 a.choices
    → SettlesAs a (ends_as after.taken r) (record { world = f; pending = pend; tail = end; choices = cs })
code_settles a c k x rest after r o b l f told pend end cs chosen front m item out res marks cut files same link passed ended marked used =
    let others : rest ≡ c.front ++ c.back = out ∙ m.rest in
    let y : answered_among a.world rest x ≡ answer_to a.world c = (λ i. answered_among a.world (others i) (item i)) ∙ answer_here a.world c in
    let result : r ≡ (answer_to a.world c).result = res ∙ ap (λ z. z.result) y in
    let bytes : after.taken.loan ≡ world_machine.back c.item.taken (answer_to a.world c).result (answer_to a.world c).buf = ap (λ t. t.taken.loan) same ∙ (λ i. world_machine.back (item i).taken (y i).result (y i).buf) in
    let number : after.taken.entry.user_data ≡ c.item.taken.entry.user_data = ap (λ t. t.taken.entry.user_data) same ∙ ap (λ z. z.taken.entry.user_data) item in
    let large : after.taken.large ≡ c.item.taken.large = ap (λ t. t.taken.large) same ∙ ap (λ z. z.taken.large) item in
    let links : l ≡ linked (job_of c.item.taken).link = link ∙ ap (λ t. linked (job_of t.taken).link) same ∙ ap (λ z. linked (job_of z.taken).link) item in
    let cuts_is : b ≡ cuts c.item.cut (job_of c.item.taken) (answer_to a.world c).result = cut ∙ (λ i. cuts (item i).cut (job_of (item i).taken) (y i).result) in
    let seen : told ≡ c.front ++ pass l b c.back = passed c.front c.back others front in
    let last : end ≡ pass_end l b c.back a.tail = ended c.front c.back others front in
    let mark : o ≡ (answer_to a.world c).marks = marks ∙ ap (λ z. z.marks) y in
    let all : pend ≡ mark_first_if (answer_to a.world c).marks (c.front ++ pass (linked (job_of c.item.taken).link) (cuts c.item.cut (job_of c.item.taken) (answer_to a.world c).result) c.back) =
    marked ∙ ap (mark_first_if o) seen ∙ (λ i. mark_first_if (mark i) (c.front ++ pass (links i) (cuts_is i) c.back)) in
    let ends : end ≡ pass_end (linked (job_of c.item.taken).link) (cuts c.item.cut (job_of c.item.taken) (answer_to a.world c).result) c.back a.tail =
    last ∙ (λ i. pass_end (links i) (cuts_is i) c.back a.tail) in
    let made : f ≡ (answer_to a.world c).world = files ∙ ap (λ z. z.world) y in
    let quiet : (job_of after.taken).quiet ≡ (job_of c.item.taken).quiet = ap (λ t. (job_of t.taken).quiet) same ∙ quiet_kept x (answered_among a.world rest x).result (answered_among a.world rest x).buf ∙ ap (λ z. (job_of z.taken).quiet) item in
    record {
      cursor = c;
      chosen = chosen;
      ends = λ i. if quiet i && is_success (result i) then Quietly (number i) else ByPost (record { user_data = number i; result = result i; flags = 0; big = 0 ∷ 0 ∷ []; large = large i; loan = bytes i });
      state = λ i. record { world = made i; pending = all i; tail = ends i; choices = used i };
    }
