use Rattle.std.proofs.Common.{◌≡◌, sym}
use Rattle.std.specs.Option.{option_copied}
use Rattle.value_walks.specs.Outputs.{put}
use Rattle.value_walks.specs.Texts.{exception_text}
use Rattle.value_walks.proofs.Putting.{put_thrice}
use Rattle.value_walks.proofs.words.write_exception.Goals as goal

pub returns-in_ok-write-in-Some-clause-ok : goal.returns-in_ok-write-in-Some-clause-ok
returns-in_ok-write-in-Some-clause-ok c =
    let whole : put c.args.out.now (exception_text c.args.class (option_copied c.args.message)) ≡ put c.write.new.self c.units.result.now =
    rw (c.in-Some.is, c.units.ensures, c.in_ok-write-in-Some.ensures.ok, c.in_ok-write_class.ensures.ok) (sym (put_thrice _ _ _ _)) in
    rw whole c.write-in-Some.ensures.ok
