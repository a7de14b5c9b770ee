use Rattle.ats_io.proofs.mem_files.MemFilesFiles.read.Goals as goal

pub returns-clause-piece : goal.returns-clause-piece
returns-clause-piece c = rw (← c.self.view_is, ← c.deref-2.ensures.value) c.read_named-answer.ensures.piece

pub returns-clause-full : goal.returns-clause-full
returns-clause-full c = rw (← c.self.view_is, ← c.deref-2.ensures.value) c.read_named-answer.ensures.full
