-- How the positions of a ring go on.
use Rattle.std.proofs.Common.{◌≡◌, ℕ, ◌+◌, ◌%◌, ◌^◌, List, [], length, sym, ap, ◌∙◌, arith}
use Rattle.std.proofs.Math.Nat.{add-mod}
use Rattle.uring_base.specs.declared.events.Taken.{Taken}
use Rattle.uring_base.specs.declared.events.Completion.{Completion}
use Rattle.ring_traits.specs.Lists.{Advances}
use Rattle.run_loop.specs.Rounds.{PlacesGoOn}

pub advances_none : (p : ℕ) → Advances p 0 p
advances_none p = ap (λ (x : ℕ). x % 2 ^ 32) (let e : p ≡ p + 0 = omega arith in e)

pub advances_then : (p q r m n : ℕ) → Advances p m q → Advances q n r → Advances p (m + n) r
advances_then p q r m n f g =
    let sum : p + m + n ≡ p + (m + n) = omega arith in
    g ∙ add-mod q n (2 ^ 32) ∙ ap (λ (x : ℕ). (x + n % 2 ^ 32) % 2 ^ 32) f ∙ sym (add-mod (p + m) n (2 ^ 32)) ∙ ap (λ (x : ℕ). x % 2 ^ 32) sum

pub advances_by : (p q m n : ℕ) → m ≡ n → Advances p m q → Advances p n q
advances_by p q m n e f = f ∙ ap (λ (x : ℕ). (p + x) % 2 ^ 32) e

pub places_then : {R : Type 0} (offer_place reap_place : R → ℕ) (a b c : R) (m n m' n' s r : ℕ) → PlacesGoOn offer_place reap_place a b m n → PlacesGoOn offer_place reap_place b c m' n' → m + m' ≡ s → n + n' ≡ r → PlacesGoOn offer_place reap_place a c s r
places_then offer_place reap_place a b c m n m' n' s r p q offers reaps = (
  advances_by (offer_place a) (offer_place c) (m + m') s offers (advances_then (offer_place a) (offer_place b) (offer_place c) m m' p.0 q.0),
  advances_by (reap_place a) (reap_place c) (n + n') r reaps (advances_then (reap_place a) (reap_place b) (reap_place c) n n' p.1 q.1),
)

-- a round offers, publishes, has the partner move, reaps, and polls
pub places_of : {R : Type 0} (used moved : R → List Taken → List Completion → R → Type 0) (offer_place reap_place : R → ℕ)
    → ((a b : R) (ts : List Taken) (cs : List Completion) → used a ts cs b → PlacesGoOn offer_place reap_place a b (length ts) (length cs))
    → ((a b : R) (ts : List Taken) (cs : List Completion) → moved a ts cs b → (offer_place b ≡ offer_place a) × (reap_place b ≡ reap_place a))
    → (from mid shown left after last : R) (ts us : List Taken) (cs ds : List Completion)
    → used from ts [] mid → used mid [] [] shown → moved shown us ds left → used left [] cs after → used after [] [] last → PlacesGoOn offer_place reap_place from last (length ts) (length cs)
places_of used moved offer_place reap_place used_places moved_places from mid shown left after last ts us cs ds offers publishes moves reaps polls =
    let still = moved_places shown left us ds moves in
    let by_move : PlacesGoOn offer_place reap_place shown left 0 0 = (ap (λ (x : ℕ). x % 2 ^ 32) (still.0 ∙ (let e : offer_place shown ≡ offer_place shown + 0 = omega arith in e)), ap (λ (x : ℕ). x % 2 ^ 32) (still.1 ∙ (let e : reap_place shown ≡ reap_place shown + 0 = omega arith in e))) in
    let shows = places_then offer_place reap_place from mid shown (length ts) 0 0 0 (length ts) 0 (used_places from mid ts [] offers) (used_places mid shown [] [] publishes) (omega arith) (omega arith) in
    let enters = places_then offer_place reap_place from shown left (length ts) 0 0 0 (length ts) 0 shows by_move (omega arith) (omega arith) in
    let pumps = places_then offer_place reap_place from left after (length ts) 0 0 (length cs) (length ts) (length cs) enters (used_places left after [] cs reaps) (omega arith) (omega arith) in
    places_then offer_place reap_place from after last (length ts) (length cs) 0 0 (length ts) (length cs) pumps (used_places after last [] [] polls) (omega arith) (omega arith)
