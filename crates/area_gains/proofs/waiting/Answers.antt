use Rattle.area_gains.proofs.Marks.{place-within}
use Rattle.area_gains.proofs.waiting.Goals as goal

pub bounds-todo-i : goal.bounds-todo-i
bounds-todo-i c = place-within c.args.key.now c.in_ok-i.i c.in_ok-i.ensures
