-- What bytes hold is an entry of a list, whose code is its mark and these bytes.
use Rattle.std.proofs.Common.{◌≡◌, ℕ, List, ◌∷◌, length, take, true, refl, ap, sym, ◌∙◌, arith}
use Rattle.std.proofs.lemmas.List.{take_all}
use Rattle.uring_base.specs.declared.squeue.Entry.{Entry}
use Rattle.uring_base.specs.declared.cqueue.Entry.{Entry as Completed}
use Rattle.uring_base.specs.Layouts.{entry_at, entry_bytes, completion_at, completion_bytes}
use Rattle.uring_large.specs.declared.squeue.Entry128.{Entry128}
use Rattle.uring_large.specs.declared.cqueue.Entry32.{Entry32}
use Rattle.uring_large.specs.Layouts.{large_entry_at, large_entry_bytes, large_completion_at, large_completion_bytes}
use Rattle.uring_large.specs.declared.mixed_entry.MixedEntry.TheVariants.{Small, Large}
use Rattle.uring_large.specs.declared.mixed_completion.MixedCompletion.TheVariants.{Small as SmallOne, Large as LargeOne}
use Rattle.uring_mixed.specs.declared.listing.TheConstants.{SMALL_MARK, LARGE_MARK}
use Rattle.uring_mixed.specs.Listing.{Form, IsEntry, is_mark, size_for}
use Rattle.uring_mixed.specs.Forms.{entry_form, completion_form}

pub small_entry : (e : Entry) (own : List ℕ) → own ≡ entry_bytes e → entry_at own ≡ e → length own ≡ 64 → IsEntry entry_form (Small e)
small_entry e own value back size = record {
  mark = SMALL_MARK;
  own = own;
  bytes = ap (λ l. SMALL_MARK ∷ l) (sym value);
  marked = refl;
  size = size;
  holds = ap (λ l. Small (entry_at l)) (sym value) ∙ ap (λ x. Small x) back;
}

pub large_entry : (e : Entry128) (own : List ℕ) → own ≡ large_entry_bytes e → large_entry_at own ≡ e → length own ≡ 128 → IsEntry entry_form (Large e)
large_entry e own value back size = record {
  mark = LARGE_MARK;
  own = own;
  bytes = ap (λ l. LARGE_MARK ∷ l) (sym value);
  marked = refl;
  size = size;
  holds = ap (λ l. Large (large_entry_at l)) (sym value) ∙ ap (λ x. Large x) back;
}

pub small_completion : (c : Completed) (own : List ℕ) → own ≡ completion_bytes c → completion_at own ≡ c → length own ≡ 16 → IsEntry completion_form (SmallOne c)
small_completion c own value back size = record {
  mark = SMALL_MARK;
  own = own;
  bytes = ap (λ l. SMALL_MARK ∷ l) (sym value);
  marked = refl;
  size = size;
  holds = ap (λ l. SmallOne (completion_at l)) (sym value) ∙ ap (λ x. SmallOne x) back;
}

pub large_completion : (c : Entry32) (own : List ℕ) → own ≡ large_completion_bytes c → large_completion_at own ≡ c → length own ≡ 32 → IsEntry completion_form (LargeOne c)
large_completion c own value back size = record {
  mark = LARGE_MARK;
  own = own;
  bytes = ap (λ l. LARGE_MARK ∷ l) (sym value);
  marked = refl;
  size = size;
  holds = ap (λ l. LargeOne (large_completion_at l)) (sym value) ∙ ap (λ x. LargeOne x) back;
}

-- a mark is one of two, and says the size
pub large_left : (m : ℕ) → is_mark m ≡ true → ¬ (m ≡ SMALL_MARK) → m ≡ LARGE_MARK
large_left m marked not = grind arith

pub small_size : {T : Type 0} (form : Form T) (m n : ℕ) → n ≡ size_for form m → m ≡ SMALL_MARK → n ≡ form.small
small_size form m n size is = size ∙ ap (size_for form) is

pub large_size : {T : Type 0} (form : Form T) (m n : ℕ) → n ≡ size_for form m → m ≡ LARGE_MARK → n ≡ form.large
large_size form m n size is = size ∙ ap (size_for form) is

-- the first n of n bytes are all
pub whole : (n : ℕ) (own bytes : List ℕ) → own ≡ take n bytes → length bytes ≡ n → own ≡ bytes
whole n own bytes first size = first ∙ take_all n bytes (omega (arith, size))
