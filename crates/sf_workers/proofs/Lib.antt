mod Ending
mod Conversing
mod Kept
mod Slabs
mod Queues
mod Receiving
mod OnePromise
