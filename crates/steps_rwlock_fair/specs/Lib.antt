pub mod FairSteps
pub mod FairBegins
pub mod FairDeeds
pub mod FairProfiles
pub mod FairCalls
pub mod FairLaws
pub mod FairMoves
pub mod FairGives
