-- `fields::Page::put_stop` meets its contract. Assumes nothing.
use Rattle.sheet.specs.Output.{stop_word}
use Rattle.fields.proofs.Page.put_stop.Goals as goal

pub put_bytes-requires : goal.put_bytes-requires
unfolding stop_word
put_bytes-requires c = rw c.in-Emptied.is at c.requires

pub put_bytes-requires-in-Spent : goal.put_bytes-requires-in-Spent
unfolding stop_word
put_bytes-requires-in-Spent c = rw c.in-Spent.is at c.requires

pub put_bytes-requires-in-Full : goal.put_bytes-requires-in-Full
unfolding stop_word
put_bytes-requires-in-Full c = rw c.in-Full.is at c.requires

pub returns-in-Emptied : goal.returns-in-Emptied
unfolding stop_word
returns-in-Emptied c = rw c.in-Emptied.is c.put_bytes.ensures

pub returns-in-Spent : goal.returns-in-Spent
unfolding stop_word
returns-in-Spent c = rw c.in-Spent.is c.put_bytes-in-Spent.ensures

pub returns-in-Full : goal.returns-in-Full
unfolding stop_word
returns-in-Full c = rw c.in-Full.is c.put_bytes-in-Full.ensures
