use Rattle.std.proofs.Common.{◌≡◌, ◌-◌, ◌++◌, length, take, arith, length-take}
use Rattle.reels.proofs.Lists.{length_cut, stretch_cut}
use Rattle.reels.proofs.joined.JoinedReel.copy_to.Goals as goal

pub copy_both-requires : goal.copy_both-requires
copy_both-requires g c = let e = simp length_cut at c.len.ensures in simp length-take (omega arith)

pub returns : goal.returns
returns g c =
    let both = g.P.Reel.samples c.args.self.now.first ++ g.Q.Reel.samples c.args.self.now.second in
    let long : length (take (c.fitting-n.result - 0) c.args.block.now) ≡ c.fitting-n.result = simp length-take (omega arith) in
    let here = stretch_cut both c.args.start c.fitting-n.result (omega arith) in
    record { count = omega arith; block = grind arith }
