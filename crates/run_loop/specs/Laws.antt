-- The laws of the definitions that a run stands on, as their crate states them.
use Rattle.uring_model.specs.Explained.{IdleCallsAreMoves, IdlePartnersAreExplained}
use Rattle.uring_model.specs.Joins.{MovesJoin, NoMoveStays, TurnsPostTheirs}
use Rattle.uring_model.specs.Progress.{TurnsSettle, SettlingTurns, SettlingTurnsJoin, NoneIsLost}
use Rattle.uring_model.specs.Ends.{SetWhereWhole, IdleWhereWhole, AnsweredAtEnd, WholeWhereAnswered, LastTurnsPost}
use Rattle.uring_model.specs.Machine.{Files}
use Rattle.uring_model.specs.Partner.{file_machine}
use Rattle.uring_model.specs.Schedule.{Machine}
use Rattle.uring_model.specs.Refines.{WorldLaws}
use Rattle.uring_model.specs.Honest.{NoPostIsStrange, PostsAnswer, QuietsAnswer}

pub record ModelLaws {W : Type 0} (mach : Machine W) (view : W → Files) (Plain : W → Type 0) : Type 0 where
  pub join : MovesJoin
  pub stay : NoMoveStays
  pub turn_posts : TurnsPostTheirs
  pub settles : TurnsSettle file_machine
  pub settling : SettlingTurns
  pub settling_join : SettlingTurnsJoin
  pub none_lost : NoneIsLost file_machine
  pub idle_moves : IdleCallsAreMoves
  pub explained : IdlePartnersAreExplained
  pub honest : NoPostIsStrange
  pub answers : PostsAnswer
  pub quiets : QuietsAnswer
  pub set : SetWhereWhole
  pub restful : IdleWhereWhole
  pub answered : AnsweredAtEnd
  pub heard : WholeWhereAnswered
  pub last_posts : LastTurnsPost
  pub world : WorldLaws mach view Plain
