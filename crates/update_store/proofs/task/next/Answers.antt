use Rattle.serde_json.specs.View.{view}
use Rattle.update_store.specs.declared.client.Phase.TheVariants as p
use Rattle.update_store.specs.Documents.{change_view, doc_view}
use Rattle.update_store.proofs.RunLemmas.{ok_as, takes_in, takes_keep, takes_none, takes_read, takes_run, takes_write}
use Rattle.update_store.proofs.task.next.Goals as goal

pub returns-in-Read : goal.returns-in-Read
returns-in-Read g c =
    ok_as c.begin.result
    (λ phase is. takes_in _ _ c.args.number c.args.id.now c.args.retries.now c.args.store.now c.args.runner.now c.args.phase p.Read _ c.in-Read.is
    (takes_read _ _ c.args.number c.args.id.now c.args.retries.now c.args.store.now c.args.runner.now phase is))
    c.begin.ensures

pub returns-in-Run : goal.returns-in-Run
returns-in-Run g c =
    ok_as c.run.result
    (λ phase ran. takes_in _ _ c.args.number c.args.id.now c.args.retries.now c.args.store.now c.args.runner.now c.args.phase (p.Run c.in-Run.doc) _ c.in-Run.is
    (takes_run _ _ c.args.number c.args.id.now c.args.retries.now c.args.store.now (doc_view c.in-Run.doc) c.args.runner.now c.run.new.runner phase ran))
    c.run.ensures

pub returns-in-Write : goal.returns-in-Write
returns-in-Write g c =
    ok_as c.write.result
    (λ phase written. takes_in _ _ c.args.number c.args.id.now c.args.retries.now c.args.store.now c.args.runner.now c.args.phase (p.Write c.in-Write.version c.in-Write.change) _ c.in-Write.is
    (takes_write _ _ c.args.number c.args.id.now c.in-Write.version (change_view c.in-Write.change) c.args.retries.now c.write.new.retries c.args.store.now c.write.new.store c.args.runner.now phase written))
    c.write.ensures

pub returns-in-Keep : goal.returns-in-Keep
returns-in-Keep g c =
    ok_as c.keep.result
    (λ phase is. takes_in _ _ c.args.number c.args.id.now c.args.retries.now c.args.store.now c.args.runner.now c.args.phase p.Keep _ c.in-Keep.is
    (takes_keep _ _ c.args.number c.args.id.now c.args.retries.now c.args.store.now c.args.runner.now phase is))
    c.keep.ensures

pub returns-in-Ended : goal.returns-in-Ended
returns-in-Ended g c =
    takes_in _ _ c.args.number c.args.id.now c.args.retries.now c.args.store.now c.args.runner.now c.args.phase (p.Ended c.in-Ended.reply) _ c.in-Ended.is
    (takes_none _ _ c.args.number c.args.id.now c.args.retries.now c.args.store.now c.args.runner.now (view c.in-Ended.reply))
