use Rattle.std.proofs.Common.{sym, arith}
use Rattle.std.proofs.lemmas.Option.{slice_get_past}
use Rattle.reels.proofs.Lists.{length_cut, joined_front, joined_back}
use Rattle.reels.proofs.joined.JoinedReel.sample.Goals as goal

pub returns-then-i-ge-LIMIT : goal.returns-then-i-ge-LIMIT
returns-then-i-ge-LIMIT g c = sym (slice_get_past _ c.args.i (rw length_cut (omega arith)))

pub returns-then-i-before : goal.returns-then-i-before
returns-then-i-before g c =
    let here = joined_front (g.P.Reel.samples c.args.self.now.first) (g.Q.Reel.samples c.args.self.now.second) c.args.i (omega arith) (omega arith) in
    cc

pub returns-else-i-before : goal.returns-else-i-before
returns-else-i-before g c =
    let here = joined_back (g.P.Reel.samples c.args.self.now.first) (g.Q.Reel.samples c.args.self.now.second) c.args.i (omega arith) (omega arith) in
    cc
