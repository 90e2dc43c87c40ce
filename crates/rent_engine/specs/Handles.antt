-- What the cancel of a handle does.
use Rattle.std.specs.Prelude.{◌≡◌, ℕ, ◌<◌, Bool, true, false, List, [], ◌∷◌, length, slice_set, Option, None, Result, Ok, Err}
use Rattle.uring_base.specs.declared.events.Taken.{Taken}
use Rattle.uring_base.specs.declared.events.Completion.{Completion}
use Rattle.ring_traits.specs.Lists.{Lists}
use Rattle.rent_table.specs.Ops.{Ops, knows, started, forgotten}
use Rattle.rent_table.specs.Joins.{AreJoined}
use Rattle.rent_engine.specs.declared.fault.StartFault.{StartFault}
use Rattle.rent_engine.specs.declared.fault.StartFault.TheVariants.{KeyInUse, RingFull, NoMemory}
use Rattle.rent_engine.specs.Engines.{Offered, offered_cancel}

-- the least number that the engine doesn't know
abbrev pub IsFresh : Ops → ℕ → Type 0
IsFresh ops n = (knows ops n ≡ false) × ((k : ℕ) → k < n → knows ops k ≡ true)

-- For each target in turn a cancel is started, under the number that is fresh then, and forgotten.
abbrev pub CancelsEach : List ℕ → Ops → List Taken → Ops → Type 0
CancelsEach [] ops ts after = (ts ≡ []) × (after ≡ ops)
CancelsEach (target ∷ targets) ops ts after =
    (n : ℕ) × (rest : List Taken) × IsFresh ops n × (ts ≡ offered_cancel target n ∷ rest) × CancelsEach targets (forgotten n (started n false None ops)) rest after

module _ {R : Type 0} (large : Bool) (used : R → List Taken → List Completion → R → Type 0) (lists : R → Option Lists) (room waiting : R → ℕ) where
  -- The numbers that are joined to the handle are canceled, and it is marked; or they are more than the ring has room for.
  abbrev pub HandleEnds : ℕ → R → R → Ops → Ops → List Bool → List Bool → Result ℕ StartFault → Type 0
  HandleEnds h before after ops ops' handles handles' (Ok count) =
      (targets : List ℕ) × AreJoined ops h targets × (count ≡ length targets) × (handles' ≡ slice_set handles h true)
      × (ts : List Taken) × Offered large used lists room waiting before ts after × CancelsEach targets ops ts ops'
  HandleEnds h before after ops ops' handles handles' (Err (RingFull buf)) = (buf ≡ None) × (targets : List ℕ) × AreJoined ops h targets × (room before < length targets)
  HandleEnds h before after ops ops' handles handles' (Err (NoMemory buf)) = buf ≡ None
  HandleEnds h before after ops ops' handles handles' (Err (KeyInUse buf)) = ⊥
