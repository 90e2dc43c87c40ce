-- Marks and cuts of what is pending, by places.
use Rattle.std.specs.Prelude.{◌≡◌, ℕ, Bool, true, List, Some, slice_get, slice_set}
use Rattle.uring_model.specs.declared.pending.Pending.{Pending}
use Rattle.uring_partner.specs.Served.{has_unmarked, mark_first}

abbrev pub marked_one : Pending → Pending
marked_one i = record { taken = i.taken; cut = i.cut; marked = true }

abbrev pub cut_one : Bool → Pending → Pending
cut_one b i = record { taken = i.taken; cut = b; marked = i.marked }

-- the entry at this place is the first that is unmarked and has the number
pub record IsFirstUnmarked (number : ℕ) (pending : List Pending) (place : ℕ) : Type 0 where
  pub item : Pending
  pub here : slice_get pending place ≡ Some item
  pub has : has_unmarked number pending ≡ true
  pub mark : mark_first number pending ≡ slice_set pending place (marked_one item)

-- the entry at this place is told whether it is cut
pub record IsToldCut (pending : List Pending) (place : ℕ) (cut : Bool) (after : List Pending) : Type 0 where
  pub item : Pending
  pub here : slice_get pending place ≡ Some item
  pub set : after ≡ slice_set pending place (cut_one cut item)
