pub mod JoinedLinks
