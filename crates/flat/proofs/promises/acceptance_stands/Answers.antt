use Rattle.flat.proofs.Acceptance.{start_accepted, insert_accepted, cut_accepted, erase_accepted, copy_accepted, paste_accepted}
use Rattle.flat.proofs.Acceptance.{forget_accepted, question_answered, lacks_none}
use Rattle.flat.proofs.promises.acceptance_stands.Goals as goal

pub returns : goal.returns
returns g c =
    let k = g.K.Kind.meaning c.args.kind.now in
    record {
      start = start_accepted;
      insert = insert_accepted k;
      cut = cut_accepted k;
      erase = erase_accepted k;
      copy = copy_accepted k;
      paste = paste_accepted k;
      forget = forget_accepted k;
      questions = question_answered k;
      sampled = lacks_none k;
    }
