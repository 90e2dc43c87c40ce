use Rattle.rent_fs.proofs.Wholes.{is_whole_exactly}
use Rattle.rent_fs.proofs.laws.whole_buffers.Goals as goal

pub returns : goal.returns
returns c = is_whole_exactly
