mod RunLemmas
mod OpenLemmas
mod FedLemmas
mod UpgradeLemmas
mod AcceptanceLemmas
