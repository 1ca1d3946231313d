-- Lemmas of the command line, and of what sources and sinks tell.
mod CommandLine
mod Told
