use Rattle.std.proofs.Common.{refl}
use Rattle.kinds.proofs.Places.{extent_counts, divides_nothing, divides_inside, divides_twice}
use Rattle.kinds.proofs.Places.{before_atoms, after_atoms, divided_atoms, puts_atoms, taken_atoms, without_atoms, paste_of_cut}
use Rattle.kinds.specs.Places.{extent_of}
use Rattle.flat.proofs.promises.places_stand.Goals as goal

pub returns : goal.returns
returns g c =
    let k = g.K.Kind.meaning c.args.kind.now in
    record {
      counts = extent_counts k;
      nothing = λ laws xs ys l. divides_nothing k laws xs ys (extent_of k xs) refl l;
      inside = divides_inside k;
      atoms = λ laws es p l. (before_atoms k laws es p l, after_atoms k laws es p l, divided_atoms k laws es p l);
      twice = divides_twice k;
      puts = puts_atoms k;
      takes = λ laws es from len l. (taken_atoms k laws es from len l, without_atoms k laws es from len l);
      pasted = paste_of_cut k;
    }
