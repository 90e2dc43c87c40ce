use Rattle.uring_cli.proofs.WordsSaid.{options_found, options_again}
use Rattle.uring_cli.proofs.laws.options_are_as_said.Goals as goal

pub returns : goal.returns
returns c =
    let numbers = c.numbers_are_decimal.ensures in
    λ words options. (options_found numbers words options, options_again numbers words options)
