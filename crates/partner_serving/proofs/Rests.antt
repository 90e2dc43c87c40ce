-- How many jobs a replay has left.
use Rattle.std.proofs.Common.{◌≡◌, ℕ, ◌+◌, Bool, true, false, ◌&&◌, if◌then◌else◌, nat_eq, List, [], ◌∷◌, length, ℤ, Option, Some, None, refl, ap, subst, ◌∙◌, arith}
use Rattle.std.proofs.lemmas.Option.{same_Some}
use Rattle.uring_base.specs.declared.events.Event.{Event}
use Rattle.uring_base.specs.Completions.{is_final}
use Rattle.uring_model.specs.Jobs.{Job, ends_quietly}
use Rattle.uring_model.specs.Replay.{Place, ReplayState, may, settle, settle_at, by_post, place_of, take_job, replay_next, replay_from}
use Rattle.uring_model.specs.Moves.{Move, Turned, Took, Posted, Quieted, took, journal_of, log_of}

-- where an event takes place, the state behind it goes on

given : (b : Bool) (x : ReplayState) (o : Option ReplayState) → (if b then Some x else None) ≡ o → (P : ReplayState → Type 0) → P x → (y : ReplayState) → o ≡ Some y → P y
given true x o e P p y h = subst P (same_Some x y (e ∙ h)) p
given false x o e P p y h = let none : Option ReplayState = None in let bad : none ≡ Some y = e ∙ h in cc

settled_rest : (s u : ReplayState) (told : Job → ℤ → Bool) (o : Option Place) → settle_at s told o ≡ Some u → u.rest ≡ s.rest
settled_rest s u told None e = cc
settled_rest s u told (Some p) e = given (may p.before p.job && told p.job (settle s.files p).result) _ _ refl (λ x. x.rest ≡ s.rest) refl u e

posted_rest : (s u : ReplayState) (fin : Bool) (told : Job → ℤ → Bool) (o : Option Place) → (if fin then settle_at s told o else None) ≡ Some u → u.rest ≡ s.rest
posted_rest s u true told o e = settled_rest s u told o e
posted_rest s u false told o e = cc

taken_rest : (s u : ReplayState) (j : ℕ) (rest : List Job) → take_job s j rest ≡ Some u → length rest ≡ length u.rest + 1
taken_rest s u j [] e = cc
taken_rest s u j (job ∷ rest) e = given (nat_eq j (length s.rows)) _ _ refl (λ x. length (job ∷ rest) ≡ length x.rest + 1) (omega arith) u e

next_state : (es : List Event) (o : Option ReplayState) (t : ReplayState) → replay_next es o (λ _ u. replay_from es u) ≡ Some t → (u : ReplayState) × (o ≡ Some u) × (replay_from es u ≡ Some t)
next_state es None t h = cc
next_state es (Some u) t h = (u, refl, h)

pub rest_left : (ms : List Move) (s t : ReplayState) → replay_from (journal_of (log_of ms)) s ≡ Some t → length s.rest ≡ length (took ms) + length t.rest
rest_left [] s t h = omega (arith, ap (λ x. length x.rest) (same_Some s t h))
rest_left (Turned p ∷ ms) s t h = rest_left ms s t h
rest_left (Took u ∷ ms) s t h =
    let n = next_state (journal_of (log_of ms)) (take_job s u.entry.user_data s.rest) t h in
    omega (arith, taken_rest s n.0 u.entry.user_data s.rest n.1, rest_left ms n.0 t n.2)
rest_left (Posted c ∷ ms) s t h =
    let n = next_state (journal_of (log_of ms)) (if is_final c.flags then settle_at s (by_post c.result) (place_of [] s.rows c.user_data) else None) t h in
    omega (arith, ap length (posted_rest s n.0 (is_final c.flags) (by_post c.result) (place_of [] s.rows c.user_data) n.1), rest_left ms n.0 t n.2)
rest_left (Quieted k ∷ ms) s t h =
    let n = next_state (journal_of (log_of ms)) (settle_at s ends_quietly (place_of [] s.rows k)) t h in
    omega (arith, ap length (settled_rest s n.0 ends_quietly (place_of [] s.rows k) n.1), rest_left ms n.0 t n.2)
