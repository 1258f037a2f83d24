use Rattle.timers.proofs.WheelLemmas.{filed-by}
use Rattle.timers.proofs.timer_set.file.Goals as goal

pub returns : goal.returns
returns c = record {
  member = c.is_reached.result;
  place = c.place_of.result;
  members_are = c.set.ensures;
  places_are = c.move_to.ensures;
  filed = filed-by c.args.now c.args.deadline c.is_reached.result c.place_of.result
      c.is_reached.ensures c.place_of.ensures.place;
  elsewhere = c.place_of.ensures.elsewhere;
}
