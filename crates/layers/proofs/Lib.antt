pub mod FreeFlows
