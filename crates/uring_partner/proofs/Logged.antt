-- Parts of a turn one after another, by side and log.
use Rattle.std.specs.Prelude.{◌≡◌, ℕ, ◌+◌, ◌≤◌, min, List, [], ◌∷◌, ◌++◌, length, map, Option, Some, IfSome, refl}
use Rattle.std.proofs.lemmas.List.{map-append}
use Rattle.std.proofs.Common.{ap, sym, subst, ◌∙◌, append_assoc, append-nil, arith}
use Rattle.uring_base.specs.declared.events.Taken.{Taken}
use Rattle.uring_base.specs.declared.events.Completion.{Completion}
use Rattle.uring_base.specs.declared.events.LogEvent.{LogEvent}
use Rattle.uring_model.specs.Moves.{Move, Turned, Took, Posted, took, posted, log_of}
use Rattle.uring_model.specs.Turn.{ByPost, ended, posts_of}
use Rattle.uring_model.proofs.Joins.{took-append, posted-append, took_turn, posted_turn, log-append}
use Rattle.ring_traits.specs.Lists.{Lists, Moves, WhereTold}
use Rattle.uring_partner.specs.declared.hostile.HostilePartner.{HostilePartner}
use Rattle.uring_model.specs.Partner.{file_machine}
use Rattle.partner_traits.specs.Calls.{Enters, IsTurn}
use Rattle.uring_partner.specs.Logs.{LogsBy, hostile_log, no_state}
use Rattle.uring_partner.proofs.Turns.{Joins, Fits, IsRoom, is_turn, room_gone, same_room}

pub logs_then : {Q : Type 0} (moved : Q → List Taken → List Completion → Q → Type 0) → Joins moved
    → (a b c : List LogEvent) (s t u : Q) (ms ns : List Move) → LogsBy moved a b s t ms → LogsBy moved b c t u ns → LogsBy moved a c s u (ms ++ ns)
logs_then moved joins a b c s t u ms ns p q = record {
  sides = rw (took-append ms ns, posted-append ms ns) (joins s t u (took ms) (took ns) (posted ms) (posted ns) p.sides q.sides);
  grown = q.grown ∙ ap (λ l. l ++ log_of ns) p.grown ∙ append_assoc a (log_of ms) (log_of ns) ∙ ap (λ l. a ++ l) (sym (log-append ms ns));
}

pub logs_side : {Q : Type 0} (moved : Q → List Taken → List Completion → Q → Type 0) (a : List LogEvent) (s t : Q) → moved s [] [] t → LogsBy moved a a s t []
logs_side moved a s t m = record { sides = m; grown = sym (append-nil a) }

pub logs_nil : {Q : Type 0} (moved : Q → List Taken → List Completion → Q → Type 0) → Joins moved
    → (a b c : List LogEvent) (s t u : Q) (ms : List Move) → LogsBy moved a b s t ms → LogsBy moved b c t u [] → LogsBy moved a c s u ms
logs_nil moved joins a b c s t u ms p q = subst (λ ns. LogsBy moved a c s u ns) (append-nil ms) (logs_then moved joins a b c s t u ms [] p q)

pub logs_took : {Q : Type 0} (moved : Q → List Taken → List Completion → Q → Type 0) → Joins moved
    → (a b c : List LogEvent) (s t u : Q) (ts : List Taken) (x : Taken) → LogsBy moved a b s t (map Took ts) → LogsBy moved b c t u (Took x ∷ []) → LogsBy moved a c s u (map Took (ts ++ x ∷ []))
logs_took moved joins a b c s t u ts x p q = rw map-append (logs_then moved joins a b c s t u (map Took ts) (Took x ∷ []) p q)

pub logs_posted : {Q : Type 0} (moved : Q → List Taken → List Completion → Q → Type 0) → Joins moved
    → (a b c : List LogEvent) (s t u : Q) (cs : List Completion) (x : Completion) → LogsBy moved a b s t (map Posted cs) → LogsBy moved b c t u (Posted x ∷ []) → LogsBy moved a c s u (map Posted (cs ++ x ∷ []))
logs_posted moved joins a b c s t u cs x p q = rw map-append (logs_then moved joins a b c s t u (map Posted cs) (Posted x ∷ []) p q)

-- a call that began, took and posted
pub logged_call : {Q : Type 0} (moved : Q → List Taken → List Completion → Q → Type 0) → Joins moved → (a b c d : HostilePartner) (s t u v : Q) (p : ℕ) (ts : List Taken) (cs : List Completion)
    → LogsBy moved a.log.items b.log.items s t (Turned p ∷ []) → LogsBy moved b.log.items c.log.items t u (map Took ts) → LogsBy moved c.log.items d.log.items u v (map Posted cs)
    → Enters file_machine hostile_log no_state moved a d s v (Turned p ∷ (map Took ts ++ map Posted cs))
logged_call moved joins a b c d s t u v p ts cs g h k =
    let all = logs_then moved joins a.log.items b.log.items d.log.items s t v (Turned p ∷ []) (map Took ts ++ map Posted cs) g (logs_then moved joins b.log.items c.log.items d.log.items t u v (map Took ts) (map Posted cs) h k) in
    record { sides = all.sides; logs = ap Some all.grown; states = refl }

-- a turn of posts alone, as a turn of ends

pub by_posts : (cs : List Completion) → map ended (map ByPost cs) ≡ map Posted cs
by_posts [] = refl
by_posts (c ∷ cs) = ap (λ ms. Posted c ∷ ms) (by_posts cs)

posts_by : (cs : List Completion) → posts_of (map ByPost cs) ≡ cs
posts_by [] = refl
posts_by (c ∷ cs) = ap (λ l. c ∷ l) (posts_by cs)

pub took_by : (ts : List Taken) (cs : List Completion) → took (map Took ts ++ map Posted cs) ≡ ts
took_by ts cs = ap (λ ms. took (map Took ts ++ ms)) (sym (by_posts cs)) ∙ took_turn ts (map ByPost cs)

pub posted_by : (ts : List Taken) (cs : List Completion) → posted (map Took ts ++ map Posted cs) ≡ cs
posted_by ts cs = ap (λ ms. posted (map Took ts ++ ms)) (sym (by_posts cs)) ∙ posted_turn ts (map ByPost cs) ∙ posts_by cs

pub is_turn_by : (to_submit p : ℕ) (lists : Option Lists) (ts : List Taken) (cs : List Completion) → p ≤ to_submit → IfSome lists (λ l. p ≡ min to_submit (length l.published)) → length ts ≤ p → IsTurn to_submit lists (Turned p ∷ (map Took ts ++ map Posted cs))
is_turn_by to_submit p lists ts cs fits told few = subst (λ ms. IsTurn to_submit lists (Turned p ∷ (map Took ts ++ ms))) (by_posts cs) (is_turn to_submit p lists ts (map ByPost cs) fits told few)

pub took_count_by : (p : ℕ) (ts : List Taken) (cs : List Completion) → length ts ≡ p → p ≡ length (took (Turned p ∷ (map Took ts ++ map Posted cs)))
took_count_by p ts cs e = sym e ∙ ap length (sym (took_by ts cs))

-- the room before these posts, where none is left
pub room_filled : (kept : Completion → Completion) (x y : Option Lists) (cs : List Completion) (n : ℕ) → WhereTold (λ l m. Moves kept l (took (map Posted cs)) (posted (map Posted cs)) m) x y → Fits y → n ≡ 0 → IsRoom n y → IsRoom (length cs) x
room_filled kept x y cs n w f e h =
    let all = room_gone kept x y (took (map Posted cs)) (posted (map Posted cs)) n w f h in
    same_room (length (posted (map Posted cs)) + n) (length cs) x (omega (arith, e, ap length (posted_by [] cs))) all
