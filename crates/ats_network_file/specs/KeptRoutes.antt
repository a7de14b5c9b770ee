use Rattle.ats_topology.specs.Topology.{DeclaredTopology}
use Rattle.ats_topology.specs.KeptWalks.{AreKeptFor}
use Rattle.ats_network_file.specs.KeptSteps.{AreSteps}
use Rattle.ats_network_file.specs.declared.kept_routes.KeptRoutes.{KeptRoutes}

-- the searches and the steps are those of the topology
pub record IsKeptFor (topology : DeclaredTopology) (kept : KeptRoutes) : Type 0 where
  pub walks : AreKeptFor topology kept.walks
  pub steps : AreSteps topology kept.steps
