mod StayFacts
mod EndFacts
mod ReadyFacts
