use Rattle.obj_store.proofs.names.remove.Goals as goal

pub returns-clause-finds : goal.returns-clause-finds
returns-clause-finds c = λ n. c.remove.ensures.updates.0 (n.path, n.place)
