use Rattle.search.proofs.work.Search.answer.Goals as goal

pub told-requires-clause-sound : goal.told-requires-clause-sound
told-requires-clause-sound g c = rw c.run.ensures.stays.0 c.run.ensures.sound
