use Rattle.std.proofs.Common.{arith}
use Rattle.walks.proofs.Nestings.{spine_room, spine_more, spine_falls, spine_named, spine_end}
use Rattle.walks.proofs.cursor.Cursor.go_down.Goals as goal

pub cell_at-cell-requires : goal.cell_at-cell-requires
cell_at-cell-requires g c =
    spine_named c.requires.sound c.loop-self.invariant (omega (arith, c.loop-self-test.true, c.count_at.ensures))

pub bounds-self-self : goal.bounds-self-self
bounds-self-self g c = spine_room c.requires.sound c.loop-self.invariant

pub loop-self-smaller : goal.loop-self-smaller
loop-self-smaller g c = spine_falls c.requires.sound c.loop-self.invariant c.cell_at-cell.ensures

pub loop-self-preserved : goal.loop-self-preserved
loop-self-preserved g c =
    spine_more c.requires.sound c.loop-self.invariant c.cell_at-cell.ensures

pub returns : goal.returns
returns g c =
    spine_end c.requires.sound c.loop-self.invariant (omega (arith, c.loop-self-test.false, c.count_at.ensures))
