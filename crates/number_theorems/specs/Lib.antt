-- Which call can answer which number: Numbers is the statement, proved in Answers.
pub mod Numbers
