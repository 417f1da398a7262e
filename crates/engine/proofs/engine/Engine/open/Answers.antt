use Rattle.table.specs.Table.{Table}
use Rattle.components.proofs.Law.{every_lawful_table}
use Rattle.rules.proofs.Meaning.{every_meaning}
use Rattle.rules.proofs.Promises.{every_book, every_sound, every_fit}
use Rattle.history.proofs.Histories.{every_history}
use Rattle.history.proofs.Refusing.{refusal_law}
use Rattle.history.proofs.Worked.{worked}
use Rattle.engine.proofs.Accepted.{opened_by}
use Rattle.engine.proofs.engine.Engine.open.Goals as goal

pub returns : goal.returns
returns g c =
    let T : Table = g.S.Source.table c.args.source.now in
    record {
      opens = opened_by T c.args.space.desk c.load.new.self c.load.result c.err-idle.result c.load.ensures c.err-idle.ensures.value;
      bounds = every_history T;
      refusals = refusal_law;
      components = every_lawful_table;
      rules = every_meaning;
      books = every_book;
      sound = every_sound;
      fit = every_fit;
      worked = worked;
    }
