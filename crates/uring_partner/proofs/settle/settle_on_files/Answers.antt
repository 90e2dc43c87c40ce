use Rattle.uring_partner.proofs.Among.{alike}
use Rattle.uring_partner.proofs.settle.settle_on_files.Goals as goal

pub match_copy-requires : goal.match_copy-requires
match_copy-requires c = record { alike = alike c.args.files.now c.args.rest.now.items c.args.item.now c.in_ok-copy.copy c.answer.new.item c.in_ok-copy.ensures c.in_ok-answered.ensures.item }
