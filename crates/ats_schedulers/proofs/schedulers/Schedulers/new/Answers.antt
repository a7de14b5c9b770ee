use Rattle.ats_schedulers.proofs.Listing.{each_listable, members_few}
use Rattle.ats_schedulers.proofs.schedulers.Schedulers.new.Goals as goal

pub listed-requires-clause-listable : goal.listed-requires-clause-listable
listed-requires-clause-listable c =
    rw (c.streams.ensures.value, c.topology.ensures.value) (each_listable c.args.network.now c.streams.ensures.rules)

pub listed-requires-clause-few : goal.listed-requires-clause-few
listed-requires-clause-few c =
    rw (c.streams.ensures.value, c.topology.ensures.value) (members_few c.args.network.now c.streams.ensures.rules)
