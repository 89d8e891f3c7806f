-- `text_writer::Output::put_bytes` meets its contract. One copy. Assumes nothing.
use Rattle.text_writer.proofs.Output.put_bytes.Goals as goal

pub returns-clause-written : goal.returns-clause-written
returns-clause-written c = c.put_at-self.ensures
