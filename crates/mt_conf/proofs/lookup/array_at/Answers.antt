use Rattle.mt_conf.proofs.Lists.{listed-items_view}
use Rattle.mt_conf.proofs.lookup.array_at.Goals as goal

pub returns-in-Some-as_array : goal.returns-in-Some-as_array
returns-in-Some-as_array c = rw (← c.in-Some.ensures, ← c.in-Some-as_array.ensures, c.as_slice.ensures.value) (listed-items_view c.in-Some-as_array.items.now.items)
