-- One operation whose loan is made of paths at the first poll.
use Rattle.std.specs.Prelude.{◌≡◌, ℕ, Bool, true, false, bit_or, List, [], ◌∷◌, ◌++◌, Option, Some, None, ◌⊎◌}
use Rattle.uring_base.specs.declared.events.Taken.{Taken}
use Rattle.rent_engine.specs.declared.state.Poll.{Poll}
use Rattle.rent_engine.specs.declared.state.Poll.TheVariants.{Ready}
use Rattle.rent_engine.specs.declared.one_op.Request.{Request}
use Rattle.rent_engine.specs.declared.one_op.Stage.{Stage}
use Rattle.rent_engine.specs.declared.one_op.Stage.TheVariants.{Offers}
use Rattle.rent_engine.specs.declared.one_op.OneAnswer.{OneAnswer}
use Rattle.rent_engine.specs.declared.one_op.OneAnswer.TheVariants.{NoMemory}
use Rattle.rent_table.specs.Ops.{Ops}
use Rattle.rent_engine.specs.OneOp.{flagged, numbered, stage_key, stage_offers, stage_over, PollsAs}
use Rattle.rent_fs.specs.declared.path_op.PathLoan.{PathLoan}
use Rattle.rent_fs.specs.declared.path_op.PathLoan.TheVariants.{Nothing, One, Two}
use Rattle.rent_fs.specs.declared.path_op.PathRequest.{PathRequest}
use Rattle.rent_fs.specs.declared.path_op.PathStage.{PathStage}
use Rattle.rent_fs.specs.declared.path_op.PathStage.TheVariants.{Makes, Goes, Over}

-- a zero byte ends the first path
abbrev pub two_paths : List ℕ → List ℕ → List ℕ
two_paths first second = first ++ (0 ∷ second)

abbrev pub path_bytes : PathLoan → List ℕ
path_bytes Nothing = []
path_bytes (One path) = path
path_bytes (Two first second) = two_paths first second

abbrev pub path_request : PathRequest → Request
path_request request = record { number = request.number; entry = request.entry; from = 0; buf = Some (path_bytes request.loan) }

abbrev pub path_stage_key : PathStage → Option ℕ
path_stage_key (Makes request) = None
path_stage_key (Goes stage) = stage_key stage
path_stage_key Over = None

abbrev pub path_stage_offers : PathStage → Bool
path_stage_offers (Makes request) = true
path_stage_offers (Goes stage) = stage_offers stage
path_stage_offers Over = false

abbrev pub path_stage_over : PathStage → Bool
path_stage_over (Makes request) = false
path_stage_over (Goes stage) = stage_over stage
path_stage_over Over = true

abbrev pub path_stage_numbered : ℕ → PathStage → PathStage
path_stage_numbered n (Makes request) = Makes (record request { number = Some n })
path_stage_numbered n (Goes stage) = Goes (numbered n stage)
path_stage_numbered n Over = Over

abbrev pub path_stage_flagged : ℕ → PathStage → PathStage
path_stage_flagged bits (Makes request) = Makes (record request { entry = record request.entry { flags = bit_or request.entry.flags bits } })
path_stage_flagged bits (Goes stage) = Goes (flagged bits stage)
path_stage_flagged bits Over = Over

module _ {T : Type 0} (output : OneAnswer → T) where
  -- a poll is one of the operation
  abbrev pub PathGoes : Stage → Ops → List Taken → Poll T → Ops → PathStage → Type 0
  PathGoes stage ops ts answer after next = (stage' : Stage) × PollsAs output stage ops ts answer after stage' × (next ≡ Goes stage')

  -- there was no memory for what it lends
  pub record LacksLoan (ops : Ops) (ts : List Taken) (answer : Poll T) (after : Ops) (next : PathStage) : Type 0 where
    pub entries : ts ≡ []
    pub operations : after ≡ ops
    pub gives : answer ≡ Ready (output (NoMemory None))
    pub over : next ≡ Over

  -- one poll
  abbrev pub PathPolls : PathStage → Ops → List Taken → Poll T → Ops → PathStage → Type 0
  PathPolls (Makes request) ops ts answer after next = LacksLoan ops ts answer after next ⊎ PathGoes (Offers (path_request request)) ops ts answer after next
  PathPolls (Goes stage) ops ts answer after next = PathGoes stage ops ts answer after next
  PathPolls Over ops ts answer after next = ⊥
