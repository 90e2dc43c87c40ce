-- What each side tells: its own sent and seen lists alone.
use Rattle.std.specs.Prelude.{◌≡◌, ℕ, ◌+◌, ◌-◌, List, [], ◌++◌, length, map}
use Rattle.uring_base.specs.declared.events.Taken.{Taken}
use Rattle.uring_base.specs.declared.events.Completion.{Completion}
use Rattle.uring_base.specs.Completions.{without_big}
use Rattle.ring_traits.specs.Lists.{Advances}
use Rattle.ring_shared.specs.Ends.{IsSeatOf, SameSender, SameTaker, sent, published_items, head_loaded, send_capacity, put_place, seen, taken, taken_items, head_published, take_capacity, take_place}
use Rattle.ring_shared.specs.StateParts.{AreInState, state_of}
use Rattle.uring_shared.specs.declared.pair.SharedPair.{SharedPair}
use Rattle.uring_shared.specs.declared.seats.EngineSeats.{EngineSeats}
use Rattle.uring_shared.specs.declared.seats.PartnerSeats.{PartnerSeats}

-- the seats are those of this pair
abbrev pub IsEngineOf : SharedPair → EngineSeats → Type 0
IsEngineOf pair seats = IsSeatOf pair.submissions seats.send.seat × IsSeatOf pair.completions seats.take.seat

abbrev pub IsPartnerOf : SharedPair → PartnerSeats → Type 0
IsPartnerOf pair seats = IsSeatOf pair.submissions seats.take.seat × IsSeatOf pair.completions seats.send.seat

-- all entries that were offered, and those of them that were published
abbrev pub entries_offered : EngineSeats → List Taken
entries_offered seats = sent seats.send

abbrev pub entries_published : EngineSeats → List Taken
entries_published seats = published_items seats.send

-- all completions that were seen, and the first of them, which were reaped
abbrev pub completions_seen : EngineSeats → List Completion
completions_seen seats = seen seats.take

abbrev pub completions_reaped : EngineSeats → List Completion
completions_reaped seats = taken_items seats.take

-- how many completions were reaped, and of how many the slots are given back
abbrev pub reaped_count : EngineSeats → ℕ
reaped_count seats = taken seats.take

abbrev pub given_back_count : EngineSeats → ℕ
given_back_count seats = head_published seats.take

-- how many more entries fit, and how many completions wait, as last seen
abbrev pub engine_room : EngineSeats → ℕ
engine_room seats = head_loaded seats.send + send_capacity seats.send - length (sent seats.send)

abbrev pub engine_waiting : EngineSeats → ℕ
engine_waiting seats = length (seen seats.take) - taken seats.take

-- how many entries, and how many completions, fit in all
abbrev pub engine_capacity : EngineSeats → ℕ
engine_capacity seats = send_capacity seats.send

abbrev pub engine_completion_capacity : EngineSeats → ℕ
engine_completion_capacity seats = take_capacity seats.take

-- the positions of the next offer and of the next reap
abbrev pub engine_offer_place : EngineSeats → ℕ
engine_offer_place seats = put_place seats.send

abbrev pub engine_reap_place : EngineSeats → ℕ
engine_reap_place seats = take_place seats.take

-- all entries that were seen, and the first of them, which were taken
abbrev pub entries_seen : PartnerSeats → List Taken
entries_seen seats = seen seats.take

abbrev pub entries_taken : PartnerSeats → List Taken
entries_taken seats = taken_items seats.take

-- all completions that were posted, as the ring keeps them
abbrev pub completions_posted : PartnerSeats → List Completion
completions_posted seats = sent seats.send

-- how many entries are known to wait, and how many completions are known to fit
abbrev pub partner_ready : PartnerSeats → ℕ
partner_ready seats = length (seen seats.take) - taken seats.take

abbrev pub partner_space : PartnerSeats → ℕ
partner_space seats = head_loaded seats.send + send_capacity seats.send - length (sent seats.send)

-- all six positions of the submission ring, and of the completion ring, are those of one state of
-- a core, in which items stand by numbers
abbrev pub AreInOneEntryState : EngineSeats → PartnerSeats → Type 0
AreInOneEntryState engine partner = (number : Taken → ℕ) → AreInState number (state_of number engine.send partner.take) engine.send partner.take

abbrev pub AreInOneCompletionState : EngineSeats → PartnerSeats → Type 0
AreInOneCompletionState engine partner = (number : Completion → ℕ) → AreInState number (state_of number partner.send engine.take) partner.send engine.take

-- these entries were offered and these completions reaped
pub record EngineUses (before : EngineSeats) (ts : List Taken) (cs : List Completion) (after : EngineSeats) : Type 0 where
  pub offered : entries_offered after ≡ entries_offered before ++ ts
  pub reaped : completions_reaped after ≡ completions_reaped before ++ cs
  pub offer_place : Advances (engine_offer_place before) (length ts) (engine_offer_place after)
  pub reap_place : Advances (engine_reap_place before) (length cs) (engine_reap_place after)
  -- on the same rings
  pub entries : SameSender before.send after.send
  pub completions : SameTaker before.take after.take

-- these entries were taken and these completions posted
pub record PartnerMoves (before : PartnerSeats) (ts : List Taken) (cs : List Completion) (after : PartnerSeats) : Type 0 where
  pub taken : entries_taken after ≡ entries_taken before ++ ts
  pub posted : completions_posted after ≡ completions_posted before ++ map without_big cs
  -- on the same rings
  pub entries : SameTaker before.take after.take
  pub completions : SameSender before.send after.send

-- nothing was sent, seen or taken yet, through rings of these sizes, whose positions are the start
pub record IsNewEngine (seats : EngineSeats) (sq cq start : ℕ) : Type 0 where
  pub offered : entries_offered seats ≡ []
  pub published : entries_published seats ≡ []
  pub seen : completions_seen seats ≡ []
  pub reaped : completions_reaped seats ≡ []
  pub given_back : given_back_count seats ≡ 0
  pub room : engine_room seats ≡ sq
  pub offer_place : engine_offer_place seats ≡ start
  pub reap_place : engine_reap_place seats ≡ start
  pub capacity : engine_capacity seats ≡ sq
  pub completion_capacity : engine_completion_capacity seats ≡ cq

pub record IsNewPartner (seats : PartnerSeats) (sq cq : ℕ) : Type 0 where
  pub seen : entries_seen seats ≡ []
  pub taken : entries_taken seats ≡ []
  pub posted : completions_posted seats ≡ []
  pub space : partner_space seats ≡ cq
  pub entries : take_capacity seats.take ≡ sq
  pub completions : send_capacity seats.send ≡ cq
