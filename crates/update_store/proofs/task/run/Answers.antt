use Rattle.std.proofs.Common.{refl}
use Rattle.serde_json.specs.View.{view}
use Rattle.update_store.specs.Documents.{change_view}
use Rattle.update_store.specs.Updates.{Fails, Nothing, Writes}
use Rattle.update_store.proofs.task.run.Goals as goal

pub returns-in-Write : goal.returns-in-Write
returns-in-Write g c =
    let ran = c.in-Write.ensures in
    record {
      made = Writes (change_view c.in-Write.change);
      is = refl;
      makes = λ m h. ran.answers m h;
      asked = λ m h. record { still = ran.still m h; pays = ran.spent m h };
    }

pub returns-in-Nothing : goal.returns-in-Nothing
returns-in-Nothing g c =
    let ran = c.in-Nothing.ensures in
    record {
      made = Nothing;
      is = refl;
      makes = λ m h. ran.answers m h;
      asked = λ m h. record { still = ran.still m h; pays = ran.spent m h };
    }

pub returns-in-Failed : goal.returns-in-Failed
returns-in-Failed g c =
    let ran = c.in-Failed.ensures in
    record {
      made = Fails (view c.in-Failed.error);
      is = refl;
      makes = λ m h. ran.answers m h;
      asked = λ m h. record { still = ran.still m h; pays = ran.spent m h };
    }
