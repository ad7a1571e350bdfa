mod Histories
mod Views
mod Words
mod Keeps
mod Opens
mod Takings
mod Diaries
