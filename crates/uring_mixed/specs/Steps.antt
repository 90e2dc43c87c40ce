-- One step of decoding.
use Rattle.std.specs.Prelude.{◌≡◌, ℕ, ◌+◌, ◌<◌, ◌≤◌, true, false, List, ◌++◌, length, drop, slice_index}
use Rattle.uring_mixed.specs.declared.fault.MixedFault.{MixedFault}
use Rattle.uring_mixed.specs.declared.fault.MixedFault.TheVariants.{Mark, Cut, NoMemory}
use Rattle.uring_mixed.specs.Listing.{Form, IsEntry, is_mark, size_for}

module _ {T : Type 0} (form : Form T) (bytes : List ℕ) (place : ℕ) where
  -- the entry's bytes stand between these places
  pub record StandsAt (x : T) (end : ℕ) : Type 0 where
    pub entry : IsEntry form x
    pub bytes_are : drop place bytes ≡ form.code x ++ drop end bytes
    pub later : place < end
    pub inside : end ≤ length bytes

  -- no whole entry stands there
  abbrev pub IsFaultAt : MixedFault → Type 0
  IsFaultAt (Mark at) = (at ≡ place) × (is_mark (slice_index bytes place) ≡ false)
  IsFaultAt (Cut at) = (at ≡ place) × (is_mark (slice_index bytes place) ≡ true) × (length bytes < place + 1 + size_for form (slice_index bytes place))
  IsFaultAt NoMemory = ¬ (Unit {0})
