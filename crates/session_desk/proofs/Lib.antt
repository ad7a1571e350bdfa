pub mod Crossing
mod SeatFacts
mod MoveFacts
mod Telling
mod HandFacts
mod AmongFacts
mod SeatLists
mod OpeningFacts
mod DeskFacts
mod AnswerFacts
mod FitFacts
mod KnownFacts
mod StayFacts
