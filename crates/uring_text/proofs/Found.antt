-- What a value that was found tells of the tests and steps on the way to it.
use Rattle.std.proofs.Common.{◌≡◌, ℕ, ◌⊎◌, Bool, true, false, cond, List, Some, None, refl, inl, inr}
use Rattle.std.specs.Prelude.{Option, bytes_eq, option_map}
use Rattle.std.proofs.lemmas.Slice.Eq.{bytes_eq-Decides}
use Rattle.uring_text.specs.Script.{◌>>=◌}
use Rattle.uring_text.proofs.Steps.{some_is}

-- which way a test went
pub chosen : {A : Type 0} (b : Bool) (x y z : A) → cond b x y ≡ z → ((b ≡ true) × (x ≡ z)) ⊎ ((b ≡ false) × (y ≡ z))
chosen true x y z e = inl (refl, e)
chosen false x y z e = inr (refl, e)

pub same_bytes : (xs ys : List ℕ) → bytes_eq xs ys ≡ true → xs ≡ ys
same_bytes xs ys e = (bytes_eq-Decides xs ys).0 e

pub none_is_some : {A P : Type 0} (x : A) → ◌≡◌ {A = Option A} None (Some x) → P
none_is_some x e = absurd cc

-- what was bound to a value
pub bound : {A B P : Type 0} (o : Option A) (f : A → Option B) (y : B) → (o >>= f) ≡ Some y → ((x : A) → o ≡ Some x → f x ≡ Some y → P) → P
bound (Some x) f y e k = k x refl e
bound None f y e k = absurd cc

-- what was mapped to a value
pub mapped : {A B P : Type 0} (o : Option A) (f : A → B) (y : B) → option_map f o ≡ Some y → ((x : A) → o ≡ Some x → f x ≡ y → P) → P
mapped (Some x) f y e k = k x refl (some_is (f x) y e)
mapped None f y e k = absurd cc
