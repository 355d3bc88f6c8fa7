use Rattle.std.proofs.Common.{arith}
use Rattle.profile.proofs.Edges.{made_lawful}
use Rattle.profile.proofs.columns.survey_of.Goals as goal

pub survey_element-requires : goal.survey_element-requires
survey_element-requires g c =
    made_lawful (g.K.Kind.meaning c.args.k.now) c.args.a c.args.b c.in_ok-e.e (omega arith) (omega arith) c.in_ok-e.ensures
