use Rattle.graph_laws.proofs.KeptForms.{collects_keep, scavenges_keep, mourns_keep}
use Rattle.graph_laws.proofs.laws.collections_keep_names.Goals as goal

pub returns-clause-collects : goal.returns-clause-collects
returns-clause-collects c = collects_keep

pub returns-clause-scavenges : goal.returns-clause-scavenges
returns-clause-scavenges c = scavenges_keep

pub returns-clause-mourns : goal.returns-clause-mourns
returns-clause-mourns c = mourns_keep
