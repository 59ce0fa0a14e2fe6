use Rattle.std.proofs.Common.{refl, sym, ◌∙◌, ap}
use Rattle.settle_core.specs.Bounds.{Bounds}
use Rattle.settle_core.specs.Exchange.{asked}
use Rattle.settle_core.specs.Reply.{act_of}
use Rattle.ledger_lock.proofs.house.House.act.Goals as goal

pub follow-requires : goal.follow-requires
follow-requires c =
    let inside = c.self.inside.exchange in
    let limits = ap (λ (l : Bounds). l.orders) (sym c.in_ok-reply.ensures.limits) in
    record {
      before = inside.history;
      act = act_of (asked inside c.args.account c.args.command.now c.args.now);
      last = c.in_ok-reply.ensures.history;
      asked = refl;
      next = c.orders.ensures;
      were = record {
        proper = record {
          as_many = c.make_room_for.ensures.as_many ∙ c.self.invariant.proper.as_many;
          limit = λ market within. c.make_room_for.ensures.limit market ∙ c.self.invariant.proper.limit market within ∙ limits;
        };
        orders = λ market within. c.make_room_for.ensures.orders market ∙ c.self.invariant.orders market within;
      };
      room = c.in_ok-make_room_for.ensures.room;
    }
