use Rattle.ats_topology.proofs.Searches.{search_kept}
use Rattle.ats_topology.proofs.kept_walks.KeptWalks.search.Goals as goal

pub returns-clause-kept : goal.returns-clause-kept
returns-clause-kept c = search_kept c.args.topology.now c.args.self.now c.args.to c.in_ok-distances.distances
    c.requires.to c.requires.kept c.in_ok-distances.ensures
