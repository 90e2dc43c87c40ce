-- Reading lines one after the other, as a loop does.
use Rattle.std.proofs.Common.{subst, ◌≡◌, ℕ, zero, suc, ◌+◌, ◌<◌, List, [], ◌∷◌, ◌++◌, take, drop, Some, None, refl, sym, ap, ◌∙◌, below_more, take-append-drop, add-one}
use Rattle.std.specs.Prelude.{Option, IsSome}
use Rattle.std.proofs.lemmas.List.{append-nil}
use Rattle.uring_text.specs.declared.script.Line.{Line}
use Rattle.uring_text.specs.Script.{◌>>=◌, line_says, Told, script_of, IsFaultLine}
use Rattle.uring_text.specs.Adding.{adds}
use Rattle.uring_text.proofs.Steps.{script_push}
use Rattle.uring_text.proofs.Fronts.{front_is_script}

take_suc : (lines : List (List ℕ)) (k : ℕ) (line : List ℕ) (rest : List (List ℕ)) → drop k lines ≡ line ∷ rest → take (suc k) lines ≡ take k lines ++ line ∷ []
take_suc [] zero line rest e = absurd cc
take_suc [] (suc k) line rest e = absurd cc
take_suc (x ∷ xs) zero line rest e = cc
take_suc (x ∷ xs) (suc k) line rest e = ap (λ (ls : List (List ℕ)). x ∷ ls) (take_suc xs k line rest e)

drop_suc : (lines : List (List ℕ)) (k : ℕ) (line : List ℕ) (rest : List (List ℕ)) → drop k lines ≡ line ∷ rest → drop (suc k) lines ≡ rest
drop_suc [] zero line rest e = absurd cc
drop_suc [] (suc k) line rest e = absurd cc
drop_suc (x ∷ xs) zero line rest e = cc
drop_suc (x ∷ xs) (suc k) line rest e = drop_suc xs k line rest e

pub take_next : (lines : List (List ℕ)) (k : ℕ) (line : List ℕ) (rest : List (List ℕ)) → drop k lines ≡ line ∷ rest → take (k + 1) lines ≡ take k lines ++ line ∷ []
take_next lines k line rest e = rw (add-one k) (take_suc lines k line rest e)

pub drop_next : (lines : List (List ℕ)) (k : ℕ) (line : List ℕ) (rest : List (List ℕ)) → drop k lines ≡ line ∷ rest → drop (k + 1) lines ≡ rest
drop_next lines k line rest e = rw (add-one k) (drop_suc lines k line rest e)

pub is_some : {A : Type 0} (o : Option A) (x : A) → o ≡ Some x → IsSome o
is_some (Some y) x e = refl
is_some None x e = absurd cc

pub goes_on : (lines : List (List ℕ)) (k : ℕ) (line : List ℕ) (rest : List (List ℕ)) (told new : Told) (said : Line) → script_of (take k lines) ≡ Some told → drop k lines ≡ line ∷ rest → line_says line ≡ Some said → adds told said ≡ Some new → script_of (take (k + 1) lines) ≡ Some new
goes_on lines k line rest told new said so_far next says adds = rw (take_next lines k line rest next, script_push (take k lines) line told so_far, says) adds

nothing : (o : Option Told) → (IsSome o → ⊥) → o ≡ None
nothing (Some told) never = absurd (never refl)
nothing None never = refl

-- where the first lines are no script, all of them are none
pub no_script : (lines : List (List ℕ)) (n : ℕ) → script_of (take n lines) ≡ None → script_of lines ≡ None
no_script lines n e =
    nothing (script_of lines) (λ some.
    let split = subst (λ (ls : List (List ℕ)). IsSome (script_of ls)) (sym (take-append-drop n lines)) some in
    let front = subst (λ (o : Option Told). IsSome o) e (front_is_script (take n lines) (drop n lines) split) in
    cc)

pub stops : (lines : List (List ℕ)) (k : ℕ) (line : List ℕ) (rest : List (List ℕ)) (told : Told) → script_of (take k lines) ≡ Some told → ((j : ℕ) → j < k → IsSome (script_of (take j lines))) → drop k lines ≡ line ∷ rest → (line_says line >>= adds told) ≡ None → IsFaultLine lines (k + 1)
stops lines k line rest told so_far before next none =
    let here : script_of (take (k + 1) lines) ≡ None = rw (take_next lines k line rest next, script_push (take k lines) line told so_far) none in
    record {
      none = no_script lines (k + 1) here;
      faulty = here;
      first = below_more _ _ before (is_some (script_of (take k lines)) told so_far);
    }

pub unsaid : (line : List ℕ) (told : Told) → line_says line ≡ None → (line_says line >>= adds told) ≡ None
unsaid line told e = rw e refl

pub unfit : (line : List ℕ) (told : Told) (said : Line) → line_says line ≡ Some said → adds told said ≡ None → (line_says line >>= adds told) ≡ None
unfit line told said e none = rw e none

pub all_read : (lines : List (List ℕ)) (k : ℕ) (told : Told) → script_of (take k lines) ≡ Some told → drop k lines ≡ [] → script_of lines ≡ Some told
all_read lines k told so_far none =
    let all : take k lines ≡ lines = sym (append-nil (take k lines)) ∙ ap (λ (r : List (List ℕ)). take k lines ++ r) (sym none) ∙ take-append-drop k lines in
    rw (← all) so_far
