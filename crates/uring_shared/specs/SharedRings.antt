-- A pair of rings for one thread, by what it holds.
use Rattle.std.specs.Prelude.{◌≡◌, ℕ, List, [], length}
use Rattle.uring_base.specs.declared.events.Taken.{Taken}
use Rattle.uring_base.specs.declared.events.Completion.{Completion}
use Rattle.uring_base.specs.Completions.{without_big}
use Rattle.uring_shared.specs.declared.shared_rings.SharedRings.{SharedRings}
use Rattle.ring_core.specs.Held.{Held}
use Rattle.ring_shared.specs.LocalHeld.{local_held}
use Rattle.ring_traits.specs.Lists.{Lists, Moves, Uses, Advances}

abbrev pub entries_in : SharedRings → Held Taken
entries_in rings = local_held rings.submissions.ring

abbrev pub completions_in : SharedRings → Held Completion
completions_in rings = local_held rings.completions.ring

abbrev pub lists_of : SharedRings → Lists
lists_of rings = let entries = entries_in rings in let completions = completions_in rings in record {
  capacity = entries.capacity;
  published = entries.published;
  pushed = entries.pushed;
  completion_capacity = completions.capacity;
  completions = completions.published;
  held = completions.taken;
}

-- these entries were taken and these completions posted
pub record RingMoves (before : SharedRings) (ts : List Taken) (cs : List Completion) (after : SharedRings) : Type 0 where
  pub lists : Moves without_big (lists_of before) ts cs (lists_of after)
  pub offer_place : (entries_in after).put_place ≡ (entries_in before).put_place
  pub reap_place : (completions_in after).take_place ≡ (completions_in before).take_place
  -- what the user has seen
  pub room : (entries_in after).spare ≡ (entries_in before).spare
  pub waiting : (completions_in after).waiting ≡ (completions_in before).waiting

-- these entries were offered and these completions reaped
pub record RingUses (before : SharedRings) (ts : List Taken) (cs : List Completion) (after : SharedRings) : Type 0 where
  pub lists : Uses (lists_of before) ts cs (lists_of after)
  pub offer_place : Advances (entries_in before).put_place (length ts) (entries_in after).put_place
  pub reap_place : Advances (completions_in before).take_place (length cs) (completions_in after).take_place
  -- what the partner has seen
  pub ready : (entries_in after).waiting ≡ (entries_in before).waiting
  pub space : (completions_in after).spare ≡ (completions_in before).spare

-- nothing stands in a pair of rings of these sizes, and its positions are the start
pub record IsOpened (rings : SharedRings) (capacity completion_capacity start : ℕ) : Type 0 where
  pub lists : lists_of rings ≡ record { capacity = capacity; published = []; pushed = []; completion_capacity = completion_capacity; completions = []; held = 0 }
  pub room : (entries_in rings).spare ≡ capacity
  pub waiting : (completions_in rings).waiting ≡ 0
  pub ready : (entries_in rings).waiting ≡ 0
  pub space : (completions_in rings).spare ≡ completion_capacity
  pub offer_place : (entries_in rings).put_place ≡ start
  pub reap_place : (completions_in rings).take_place ≡ start
