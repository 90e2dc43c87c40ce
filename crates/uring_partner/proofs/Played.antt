-- Posts by a script, one after another.
use Rattle.std.specs.Prelude.{◌≡◌, ℕ, ◌+◌, ◌<◌, ◌≤◌, ℤ, List, [], ◌∷◌, ◌++◌, length, map, drop, get_or, option_to_list, Option, Some, None, refl}
use Rattle.std.specs.List.{cons_option}
use Rattle.std.proofs.Common.{ap, sym, subst, ◌∙◌, append_assoc, arith}
use Rattle.std.proofs.lemmas.List.{drop_more}
use Rattle.uring_base.specs.declared.buffer.Loan.{Loan}
use Rattle.uring_base.specs.declared.events.Taken.{Taken}
use Rattle.uring_base.specs.declared.events.Completion.{Completion}
use Rattle.uring_model.specs.Moves.{Turned, Took, Posted, took, posted, quieted}
use Rattle.ring_traits.specs.Lists.{Lists, Moves, WhereTold}
use Rattle.uring_partner.specs.declared.hostile.HostilePartner.{HostilePartner}
use Rattle.uring_partner.specs.declared.hostile.LoanPlan.{LoanPlan}
use Rattle.uring_partner.specs.declared.hostile.Scripted.{Scripted}
use Rattle.uring_partner.specs.declared.hostile.Scripted.TheVariants.{Turn, Post}
use Rattle.uring_partner.specs.Logs.{script_left, loans_held}
use Rattle.uring_partner.specs.Script.{Plays, EndsAt, IsFilled, PlaysUpTo, PlaysTurn, completion_by, left_held, loans_of}
use Rattle.uring_partner.proofs.Turns.{posted_takes, room_kept}
use Rattle.uring_partner.proofs.Logged.{by_posts, posted_by, took_by, took_count_by}

-- the item in front of what is left
pub item_left : (script : List Scripted) (used : ℕ) (read item : Scripted) → used < length script → read ≡ get_or script used read → read ≡ item → drop used script ≡ item ∷ drop (used + 1) script
item_left script used read item inside here is = drop_more script used read inside ∙ ap (λ x. x ∷ drop (used + 1) script) (sym here ∙ is)

-- one post more
pub plays_more : (script : List Scripted) (held : List Loan) (cs : List Completion) (u : ℕ) (r : ℤ) (f : ℕ) (plan : LoanPlan) (rest : List Scripted) (left : List Loan)
    → Plays script held cs (Post u r f plan ∷ rest) left → Plays script held (cs ++ completion_by u r f plan left ∷ []) rest (left_held u plan left)
plays_more script held [] u r f plan rest left h =
    subst (λ s. Plays s held (completion_by u r f plan left ∷ []) rest (left_held u plan left)) h.0
    (ap (completion_by u r f plan) h.1, (refl, ap (left_held u plan) h.1))
plays_more (Post v s g other ∷ script) held (c ∷ cs) u r f plan rest left h = (h.0, plays_more script (left_held v other held) cs u r f plan rest left h.1)
plays_more (Turn ∷ script) held (c ∷ cs) u r f plan rest left h = absurd (h tt)
plays_more [] held (c ∷ cs) u r f plan rest left h = absurd (h tt)

-- the same with another rest of the script and other loans
pub plays_as : (script : List Scripted) (held : List Loan) (cs : List Completion) (rest rest' : List Scripted) (left left' : List Loan) → rest' ≡ rest → left' ≡ left → Plays script held cs rest left → Plays script held cs rest' left'
plays_as script held cs rest rest' left left' e f h = subst (λ s. Plays script held cs s left') (sym e) (subst (Plays script held cs rest) (sym f) h)

pub ends_as : (rest left : List Scripted) (A B : Type 0) → (A → B) → EndsAt rest left A → EndsAt rest left B
ends_as [] left A B f h = h
ends_as (Turn ∷ rest) left A B f h = h
ends_as (Post u r g plan ∷ rest) left A B f h = (h.0, f h.1)

cons_none : (o : Option Loan) → cons_option o [] ≡ option_to_list o
cons_none None = refl
cons_none (Some loan) = refl

cons_append : (o : Option Loan) (ks ls : List Loan) → cons_option o (ks ++ ls) ≡ cons_option o ks ++ ls
cons_append None ks ls = refl
cons_append (Some loan) ks ls = refl

-- the loans of one entry more
pub loans_more : (ts : List Taken) (t : Taken) → loans_of (ts ++ t ∷ []) ≡ loans_of ts ++ option_to_list t.loan
loans_more [] t = cons_none t.loan
loans_more (u ∷ ts) t = ap (cons_option u.loan) (loans_more ts t) ∙ cons_append u.loan (loans_of ts) (option_to_list t.loan)

-- what is held after one entry more
pub held_more : (held mid left : List Loan) (ts : List Taken) (t : Taken) → mid ≡ held ++ loans_of ts → left ≡ mid ++ option_to_list t.loan → left ≡ held ++ loans_of (ts ++ t ∷ [])
held_more held mid left ts t e f = f ∙ ap (λ ls. ls ++ option_to_list t.loan) e ∙ append_assoc held (loans_of ts) (option_to_list t.loan) ∙ ap (λ ls. held ++ ls) (sym (loans_more ts t))

none_quiet : (ts : List Taken) (cs : List Completion) → quieted (map Took ts ++ map Posted cs) ≡ []
none_quiet [] [] = refl
none_quiet [] (c ∷ cs) = none_quiet [] cs
none_quiet (t ∷ ts) cs = none_quiet ts cs

-- a call whose takes are held, and whose posts are then those of the script
pub plays_to : (old mid new : HostilePartner) (p : ℕ) (ts : List Taken) (cs : List Completion) (rest : List Scripted) → script_left mid ≡ script_left old → loans_held mid ≡ loans_held old ++ loans_of ts
    → Plays (script_left mid) (loans_held mid) cs rest (loans_held new) → PlaysUpTo rest old new (Turned p ∷ (map Took ts ++ map Posted cs))
plays_to old mid new p ts cs rest e f h =
    let from : Plays (script_left old) (loans_held old ++ loans_of ts) cs rest (loans_held new) = subst (λ ls. Plays (script_left old) ls cs rest (loans_held new)) f (subst (λ s. Plays s (loans_held mid) cs rest (loans_held new)) e h) in (
      subst (λ us. Plays (script_left old) (loans_held old ++ loans_of us) (posted (map Took ts ++ map Posted cs)) rest (loans_held new)) (sym (took_by ts cs))
          (subst (λ ds. Plays (script_left old) (loans_held old ++ loans_of ts) ds rest (loans_held new)) (sym (posted_by ts cs)) from),
      none_quiet ts cs,
    )

-- the same, where it took all of its number and posted to an end
pub plays_turn : (known space p : ℕ) (lists : Option Lists) (old new : HostilePartner) (ts : List Taken) (cs : List Completion) (rest : List Scripted) → length ts ≡ p → known ≤ p
    → PlaysUpTo rest old new (Turned p ∷ (map Took ts ++ map Posted cs)) → EndsAt rest (script_left new) (IsFilled space lists (length cs)) → PlaysTurn known space lists old new (Turned p ∷ (map Took ts ++ map Posted cs))
plays_turn known space p lists old new ts cs rest e k h q = record {
  takes = omega (arith, e, k, ap length (took_by ts cs));
  moves =
      (λ i. Turned (took_count_by p ts cs e i) ∷ (map Took (sym (took_by ts cs) i) ++ map Posted (sym (posted_by ts cs) i)))
      ∙ ap (λ ms. Turned (length (took (map Took ts ++ map Posted cs))) ∷ (map Took (took (map Took ts ++ map Posted cs)) ++ ms)) (sym (by_posts (posted (map Took ts ++ map Posted cs))));
  rest = rest;
  plays = h;
  ends = subst (λ ds. EndsAt rest (script_left new) (IsFilled space lists (length ds))) (sym (posted_by ts cs)) q;
}

-- the side is as full before the takes of a turn as after them
pub filled_mid : (kept : Completion → Completion) (x y : Option Lists) (us ts : List Taken) (s t n : ℕ) → WhereTold (λ l m. Moves kept l us (posted (map Took ts)) m) x y → t ≡ s → IsFilled t y n → IsFilled s x n
filled_mid kept x y us ts s t n w e h = record { known = omega (arith, e, h.known); told = room_kept kept x y us (posted (map Took ts)) (λ r. n ≡ r) w (posted_takes ts) h.told }
