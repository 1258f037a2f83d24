pub mod PortsLemmas
